pub mod Plain
pub mod Hands
