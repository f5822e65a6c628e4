pub mod Grammar
pub mod Reading
pub mod Verdicts
pub mod Judging
pub mod Finals
pub mod Printing
