pub mod Calls
pub mod Reactors
