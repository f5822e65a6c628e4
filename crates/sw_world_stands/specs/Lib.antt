pub mod Asked
pub mod New
pub mod Rows
pub mod Links
