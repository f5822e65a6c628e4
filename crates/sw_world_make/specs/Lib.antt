pub mod Terms
pub mod Handlers
pub mod Faults
pub mod Made
