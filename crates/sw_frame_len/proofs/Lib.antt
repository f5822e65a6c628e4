pub mod Lengths
pub mod ReadOnce
