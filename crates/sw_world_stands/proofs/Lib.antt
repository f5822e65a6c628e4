pub mod Gets
pub mod New
pub mod Rows
pub mod Goes
pub mod Arrivals
pub mod Starts
pub mod Pushing
