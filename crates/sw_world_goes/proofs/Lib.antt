pub mod Lists
pub mod Scripted
pub mod Went
pub mod May
pub mod Any
