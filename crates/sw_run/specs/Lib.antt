pub mod Counts
pub mod LinedUp
pub mod Ran
