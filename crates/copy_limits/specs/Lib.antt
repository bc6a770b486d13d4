pub mod Commits
pub mod Flat
pub mod Limits
