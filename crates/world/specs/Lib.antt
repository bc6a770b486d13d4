pub mod Counts
pub mod Digests
pub mod Folders
pub mod Plays
pub mod Shown
pub mod Told
pub mod Worlds
