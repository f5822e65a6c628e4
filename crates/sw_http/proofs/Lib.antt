pub mod Bodies
pub mod Calls
pub mod Endings
pub mod Faults
pub mod First
pub mod Heads
pub mod Scans
pub mod Searches
