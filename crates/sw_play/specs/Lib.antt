pub mod Steps
pub mod Played
pub mod Drilled
pub mod Answers
pub mod Rightly
