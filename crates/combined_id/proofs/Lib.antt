pub mod CombinedLemmas
mod Examples
pub mod FrontLemmas
pub mod LeastLemmas
pub mod LookupLemmas
pub mod OrderLemmas
pub mod PartLemmas
pub mod SplitLemmas
