pub mod ClashLemmas
pub mod CommitLemmas
pub mod LeadLemmas
pub mod MissingLemmas
pub mod NeedLemmas
pub mod OrderLemmas
pub mod PutLemmas
pub mod PlanLemmas
