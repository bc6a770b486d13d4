mod AnswerLemmas
mod BackLemmas
mod ClosedLemmas
mod CutLemmas
mod CuttingLemmas
mod Examples
mod FoldLemmas
pub mod MeaningLemmas
mod MoreLemmas
mod OccursLemmas
mod QuoteLemmas
mod ReadLemmas
mod SaidLemmas
mod TermLemmas
mod WordLemmas
