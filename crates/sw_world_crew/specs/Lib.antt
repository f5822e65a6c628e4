pub mod Hands
pub mod Recorded
