pub mod Steps
pub mod Sound
pub mod Fits
pub mod FirstLaw
pub mod Schemas
