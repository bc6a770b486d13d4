pub mod ClockLemmas
pub mod TimeLemmas
mod Examples
