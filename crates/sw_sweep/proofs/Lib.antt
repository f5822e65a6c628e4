pub mod Ending
pub mod Sorting
pub mod Taking
pub mod Telling
