pub mod Cuts
pub mod Logs
pub mod Session
pub mod Standing
pub mod Link
pub mod Runs
