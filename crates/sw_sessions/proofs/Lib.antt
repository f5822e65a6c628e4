pub mod Moves
pub mod Words
pub mod Steps
pub mod Binds
pub mod Seats
pub mod Ends
pub mod Slots
pub mod Places
