pub mod Steps
pub mod NumberLaw
pub mod HexLaw
pub mod LineSteps
pub mod AgreeLaw
pub mod LineLaw
pub mod AddressLaw
