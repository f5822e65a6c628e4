pub mod Pieces
pub mod Values
pub mod Calls
pub mod Replies
pub mod Columns
pub mod Views
