pub mod Clocks
pub mod Steps
pub mod Idle
pub mod Tells
pub mod BeatNets
