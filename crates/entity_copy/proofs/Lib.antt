pub mod ChainLemmas
pub mod NeededLemmas
