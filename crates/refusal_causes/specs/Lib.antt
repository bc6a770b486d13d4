pub mod Alike
pub mod Causes
pub mod ExchangeCauses
pub mod ListCauses
pub mod TurnCauses
