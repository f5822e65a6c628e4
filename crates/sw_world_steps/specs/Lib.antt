pub mod Server
pub mod Shared
pub mod Turns
