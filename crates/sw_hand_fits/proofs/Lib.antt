pub mod Basics
pub mod Reaching
pub mod Posting
pub mod Calling
pub mod Leaving
pub mod Slots
pub mod Taking
pub mod Turn
