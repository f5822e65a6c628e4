pub mod Standing
pub mod Run
pub mod Account
pub mod Right
