pub mod Giving
pub mod Heads
pub mod Listing
pub mod Quiet
pub mod Reading
pub mod Turning
