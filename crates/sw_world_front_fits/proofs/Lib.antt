pub mod Caps
pub mod Door
pub mod New
pub mod Front
