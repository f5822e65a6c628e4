pub mod Links
pub mod Answers
pub mod Facts
pub mod Turn
pub mod Others
