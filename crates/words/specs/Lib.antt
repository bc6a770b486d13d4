pub mod Arguments
pub mod ClapCommand
pub mod Overlaps
pub mod Pairs
pub mod Verbs
pub mod WordRules
pub mod Words
