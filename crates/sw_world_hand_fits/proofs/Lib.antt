pub mod Answers
pub mod Sound
pub mod Lines
pub mod Telling
pub mod Numbers
pub mod Goes
pub mod Workers
pub mod Starts
