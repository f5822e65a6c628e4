pub mod Race
