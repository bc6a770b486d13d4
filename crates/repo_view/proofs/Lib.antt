pub mod AnswerLemmas
pub mod LawLemmas
pub mod MissedLemmas
pub mod PeopleLemmas
pub mod ShowLemmas
pub mod ShownLemmas
