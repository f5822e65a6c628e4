pub mod Mails
pub mod Rule
pub mod Tallies
pub mod Counters
pub mod Values
pub mod Places
