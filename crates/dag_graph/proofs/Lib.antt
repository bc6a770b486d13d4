pub mod BelowLemmas
pub mod CheckLemmas
pub mod ClockLemmas
pub mod IndexLemmas
pub mod ListLemmas
pub mod NodeLemmas
pub mod SearchLemmas
