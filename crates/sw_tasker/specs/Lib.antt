pub mod Tasker
