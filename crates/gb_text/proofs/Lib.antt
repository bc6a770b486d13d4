pub mod AsciiLemmas
pub mod DecimalLemmas
pub mod DigitLemmas
mod Examples
pub mod FolderLemmas
pub mod LineEndLemmas
pub mod LowerDigitLemmas
pub mod OrderLemmas
pub mod OverlapLemmas
pub mod PartLemmas
pub mod PathLemmas
mod PrefixExamples
pub mod PrefixLemmas
pub mod ReadBackLemmas
pub mod RuleLemmas
pub mod RuledLemmas
pub mod SortedLemmas
