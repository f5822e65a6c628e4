pub mod Counted
pub mod LiningUp
pub mod Telling
