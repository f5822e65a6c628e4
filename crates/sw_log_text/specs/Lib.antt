pub mod Values
pub mod Answers
pub mod Events
pub mod Calls
pub mod Acts
pub mod Entries
