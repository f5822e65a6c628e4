pub mod Messages
pub mod Claims
pub mod Past
pub mod Views
pub mod Said
pub mod Routes
