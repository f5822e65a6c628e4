pub mod Ended
pub mod Adding
pub mod Calls
pub mod Mail
pub mod Showing
pub mod Hands
pub mod Family
