pub mod Mirror
pub mod Counting
pub mod Answering
