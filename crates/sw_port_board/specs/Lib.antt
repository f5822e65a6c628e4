pub mod Board
pub mod PlainBoard
