pub mod Calls
pub mod Histories
pub mod Laws
pub mod Tables
pub mod Answers
pub mod Following
