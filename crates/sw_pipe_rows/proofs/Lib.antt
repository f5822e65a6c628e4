pub mod Glues
pub mod Closes
pub mod Numbers
