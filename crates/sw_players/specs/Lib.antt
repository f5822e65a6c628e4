pub mod Hears
pub mod Over
pub mod Turns
pub mod Made
pub mod Actors
