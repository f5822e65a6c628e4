pub mod Actors
pub mod Peers
pub mod Outside
pub mod Draft
pub mod Grammar
