pub mod Seen
pub mod Gaps
