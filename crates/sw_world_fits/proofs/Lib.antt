pub mod Book
pub mod Net
pub mod Table
pub mod Board
