pub mod Running
pub mod Listing
pub mod Keeping
pub mod Accounts
pub mod Telling
pub mod Rightly
