pub mod Following
pub mod Asked
