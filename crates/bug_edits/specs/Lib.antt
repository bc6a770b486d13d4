pub mod Answers
pub mod EditLaws
pub mod EditTable
pub mod EditWords
pub mod Given
pub mod NewOps
