pub mod Keys
pub mod Columns
pub mod Checks
pub mod Given
pub mod Values
pub mod Faults
pub mod Framings
