pub mod TextLemmas
mod FieldLemmas
mod AnswerLemmas
pub mod SortedLemmas
pub mod PairLemmas
pub mod PairTexts
pub mod PlainLemmas
pub mod ReadLaws
pub mod KindLemmas
pub mod Examples
pub mod TableLaws
pub mod WrittenLemmas
pub mod NonceLengths
pub mod EmptyMembers
pub mod NeededMembers
