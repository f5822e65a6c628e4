pub mod Rule
pub mod Values
pub mod Places
pub mod Close
