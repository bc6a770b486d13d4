pub mod Below
pub mod Faults
pub mod Index
pub mod Nodes
pub mod Search
