pub mod Modes
pub mod Causes
pub mod Conn
pub mod Serve
