pub mod Wrong
pub mod Refused
