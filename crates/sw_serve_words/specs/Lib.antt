pub mod Unset
pub mod Serve
pub mod Load
pub mod Kinds
