pub mod TextLemmas
pub mod LineLemmas
pub mod LoopLemmas
pub mod BelowLemmas
pub mod HeadLemmas
pub mod NameLemmas
pub mod WrittenLemmas
pub mod Examples
