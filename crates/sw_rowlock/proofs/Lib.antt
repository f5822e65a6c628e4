pub mod Histories
pub mod Steps
pub mod Touching
pub mod Seating
