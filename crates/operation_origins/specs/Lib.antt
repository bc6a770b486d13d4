pub mod Limits
pub mod Once
pub mod Origins
pub mod Seen
pub mod Tracked
