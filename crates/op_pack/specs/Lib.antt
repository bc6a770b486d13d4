pub mod Answers
pub mod Heads
pub mod Texts
pub mod Packs
