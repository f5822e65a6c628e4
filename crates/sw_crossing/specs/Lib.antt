pub mod Fell
