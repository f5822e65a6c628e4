pub mod Words
pub mod Answering
pub mod Says
pub mod Rightly
pub mod Line
