pub mod ExchangeLemmas
pub mod FetchLemmas
pub mod HasLemmas
pub mod MergeLemmas
pub mod OneTextLemmas
pub mod PullLemmas
pub mod ShownLemmas
