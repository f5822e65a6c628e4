pub mod Conn
pub mod Reactor
pub mod Quiet
pub mod Modes
pub mod Runs
pub mod Always
