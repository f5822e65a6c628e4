pub mod Fitting
pub mod Making
pub mod Taken
pub mod Uses
pub mod Steps
pub mod Scripted
