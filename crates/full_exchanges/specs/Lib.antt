pub mod Exchanges
pub mod Having
pub mod Leaving
pub mod Pulls
