pub mod FaultLemmas
pub mod GrowthLemmas
pub mod HeldLemmas
pub mod PathLemmas
pub mod PutLemmas
