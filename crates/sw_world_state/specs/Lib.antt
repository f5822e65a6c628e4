pub mod State
pub mod Feeding
pub mod Turning
pub mod Steps
