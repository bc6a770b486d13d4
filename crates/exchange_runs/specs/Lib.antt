pub mod Exchanged
pub mod Takes
