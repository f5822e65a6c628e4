pub mod Conn
