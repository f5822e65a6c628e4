pub mod ReadSteps
pub mod PlaySteps
