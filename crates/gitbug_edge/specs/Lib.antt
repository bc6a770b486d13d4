pub mod Claims
pub mod Exit
