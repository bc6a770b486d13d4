pub mod Answers
pub mod Faults
pub mod Kinds
pub mod Merging
pub mod Packing
pub mod Reading
