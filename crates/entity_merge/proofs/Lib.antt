pub mod AgainLemmas
pub mod MergeLemmas
pub mod PlanLemmas
pub mod UnionLemmas
pub mod WordLemmas
