pub mod PlainRows
pub mod Store
pub mod Plain
pub mod Steps
pub mod Dumps
