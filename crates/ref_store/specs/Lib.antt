pub mod Faults
pub mod Listing
pub mod Refs
pub mod Setting
