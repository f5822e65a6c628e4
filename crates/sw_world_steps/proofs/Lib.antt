pub mod Still
pub mod Same
pub mod Door
pub mod Reactors
pub mod Numbers
pub mod Hands
