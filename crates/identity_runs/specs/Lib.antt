pub mod ExchangeLaws
pub mod Heads
pub mod HomeLaws
pub mod Homes
pub mod SamePeople
pub mod Seeds
pub mod SeenLaws
pub mod Tracked
