pub mod Logs
pub mod Orders
pub mod Tasks
pub mod Causes
pub mod Places
pub mod Sessions
pub mod Ends
