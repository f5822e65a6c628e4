pub mod Generations
pub mod Worker
