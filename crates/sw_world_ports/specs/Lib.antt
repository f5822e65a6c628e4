pub mod Calls
pub mod Made
pub mod Ports
pub mod Law
