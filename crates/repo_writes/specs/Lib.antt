pub mod Kept
pub mod Kinds
