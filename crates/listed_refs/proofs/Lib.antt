pub mod ListedLemmas
mod SearchLemmas
