mod BadRefLemmas
mod Examples
mod FetchTurnLemmas
pub mod FetchWriteLemmas
pub mod FetchedLemmas
pub mod HeldLemmas
mod OtherRefLemmas
mod PushTurnLemmas
pub mod PushWriteLemmas
pub mod QuietLemmas
pub mod SetLemmas
mod StepLaws
mod StopLemmas
mod ToldLemmas
mod TurnLemmas
pub mod WriteLemmas
