pub mod Lines
pub mod Log
pub mod Show
pub mod Users
