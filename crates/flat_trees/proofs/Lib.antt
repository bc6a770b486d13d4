pub mod CopyLemmas
pub mod EditLemmas
pub mod EntityLemmas
pub mod KeepLemmas
pub mod MergeLemmas
pub mod RunLemmas
pub mod TextLemmas
