pub mod Pipes
pub mod Place
pub mod Places
pub mod Ends
pub mod Arrived
pub mod Links
