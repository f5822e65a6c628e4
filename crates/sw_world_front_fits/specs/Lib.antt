pub mod Door
pub mod Front
