pub mod Faults
pub mod Growth
pub mod Held
pub mod Named
pub mod Puts
pub mod Texts
pub mod Typed
