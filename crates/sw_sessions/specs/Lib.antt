pub mod Calls
pub mod Rule
pub mod Values
pub mod Places
