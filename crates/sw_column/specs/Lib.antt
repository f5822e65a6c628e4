pub mod Room
pub mod Hash
pub mod Columns
pub mod Fit
pub mod Values
pub mod Cells
