pub mod Due
pub mod Queued
