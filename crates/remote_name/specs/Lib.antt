pub mod RemoteTexts
pub mod Remotes
