pub mod Asked
pub mod Summary
