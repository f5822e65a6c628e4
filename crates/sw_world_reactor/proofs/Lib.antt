pub mod Sessions
pub mod Answers
pub mod Calls
pub mod Keeps
pub mod Shows
pub mod Done
pub mod Family
pub mod Once
