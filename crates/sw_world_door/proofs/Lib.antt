pub mod Order
pub mod Doors
pub mod Family
pub mod Resting
pub mod Played
