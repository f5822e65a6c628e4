pub mod Nothing
pub mod Ends
pub mod Passes
pub mod Seen
