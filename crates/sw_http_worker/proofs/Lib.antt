pub mod Serves
pub mod Going
