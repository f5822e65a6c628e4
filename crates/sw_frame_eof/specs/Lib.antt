pub mod Mark
pub mod Compare
pub mod Scan
