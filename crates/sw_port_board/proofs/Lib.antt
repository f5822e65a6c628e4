pub mod PlainBoards
