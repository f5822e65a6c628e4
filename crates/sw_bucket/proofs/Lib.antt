pub mod Listed
pub mod Places
pub mod Done
pub mod Turning
pub mod Works
pub mod Changing
