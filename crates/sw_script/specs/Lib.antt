pub mod Bytes
pub mod Moves
pub mod Parts
pub mod Rules
pub mod Script
pub mod Faults
pub mod Views
