pub mod AgreeLemmas
pub mod WithinLemmas
