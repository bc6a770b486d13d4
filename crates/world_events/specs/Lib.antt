pub mod Draws
pub mod Events
pub mod Exchange
pub mod Within
pub mod Words
