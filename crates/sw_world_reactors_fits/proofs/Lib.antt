pub mod Settled
pub mod Apart
pub mod Changed
