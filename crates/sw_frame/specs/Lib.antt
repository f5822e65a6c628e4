pub mod Cut
pub mod Cutting
pub mod Kept
pub mod Calls
