pub mod Steady
pub mod SteadyCounts
