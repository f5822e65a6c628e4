pub mod Sayings
pub mod RightTexts
