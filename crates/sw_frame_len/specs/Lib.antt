pub mod Length
pub mod Read
