pub mod Taking
pub mod Recording
pub mod Adding
pub mod Refusing
pub mod Sharing
pub mod Assembling
