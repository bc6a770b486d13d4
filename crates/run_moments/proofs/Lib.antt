pub mod AcknowledgedLemmas
pub mod EditLemmas
pub mod LineLemmas
pub mod OnceLemmas
pub mod QuietLemmas
pub mod SurviveLemmas
