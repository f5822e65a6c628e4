pub mod Writes
pub mod Moves
pub mod Ready
pub mod Writing
pub mod Moving
