pub mod Echo
pub mod Told
pub mod Log
pub mod Noted
