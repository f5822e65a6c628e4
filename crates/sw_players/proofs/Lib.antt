pub mod Doors
pub mod Hands
pub mod Hearing
pub mod Tickets
pub mod Terms
