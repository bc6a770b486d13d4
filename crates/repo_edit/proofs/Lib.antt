pub mod GrowingLemmas
pub mod KeepsLemmas
pub mod Names
pub mod PlanBugLemmas
pub mod PlanLemmas
pub mod RepeatLemmas
