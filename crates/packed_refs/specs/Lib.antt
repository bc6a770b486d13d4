pub mod Lines
pub mod Packed
pub mod Written
