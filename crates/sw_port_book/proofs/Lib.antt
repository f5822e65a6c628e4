pub mod Members
pub mod Tries
pub mod PlainClaims
pub mod Answered
