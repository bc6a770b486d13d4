pub mod FrameLemmas
pub mod IdPathLemmas
pub mod JoinLemmas
pub mod ListLemmas
pub mod MapLemmas
pub mod ReadLemmas
pub mod RefLemmas
pub mod Examples
