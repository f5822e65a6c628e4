pub mod Then
pub mod Written
pub mod Numbers
pub mod Hex
pub mod Parts
pub mod Addresses
pub mod Views
