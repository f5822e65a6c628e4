pub mod Keeping
pub mod Slots
pub mod Kept
pub mod Apart
pub mod Links
