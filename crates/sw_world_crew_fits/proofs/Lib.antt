pub mod Lists
pub mod Workers
pub mod Taskers
pub mod Recorded
