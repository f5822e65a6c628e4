pub mod Stopped
pub mod Sorted
pub mod Told
pub mod Ended
