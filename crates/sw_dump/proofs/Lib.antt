pub mod Heads
pub mod Sets
pub mod Lines
pub mod Verdicts
pub mod RowSteps
pub mod CallSteps
pub mod Refills
pub mod Sound
