pub mod RemoteLemmas
