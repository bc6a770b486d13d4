pub mod AsListed
