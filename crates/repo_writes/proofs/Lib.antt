pub mod KeptLemmas
pub mod LossLemmas
pub mod PackLemmas
pub mod PartLemmas
pub mod PlaceLemmas
pub mod SoundBugLemmas
pub mod SoundLemmas
pub mod StayLemmas
