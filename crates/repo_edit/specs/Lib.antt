pub mod Adding
pub mod Carrying
pub mod Growing
pub mod Packing
pub mod Reads
pub mod Room
