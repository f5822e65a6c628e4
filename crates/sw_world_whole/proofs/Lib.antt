pub mod Others
pub mod Fed
pub mod Coming
pub mod Calls
pub mod Going
pub mod Starts
pub mod Told
