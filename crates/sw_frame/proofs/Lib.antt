pub mod Keeping
pub mod Searched
pub mod CutLaws
