pub mod Alls
pub mod Endings
pub mod Passes
pub mod Sitting
