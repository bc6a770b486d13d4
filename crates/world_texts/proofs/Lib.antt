pub mod AskedLemmas
pub mod EqualLemmas
