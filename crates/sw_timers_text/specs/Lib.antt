pub mod Grammar
pub mod Prints
