pub mod FrameLemmas
pub mod RowLemmas
pub mod ReadLemmas
pub mod LawLemmas
