mod ExchangeLemmas
mod ListedLemmas
pub mod ReadingLemmas
mod StepLemmas
mod TurnLemmas
