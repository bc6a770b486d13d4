pub mod Combined
pub mod Lookup
pub mod Split
