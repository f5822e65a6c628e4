pub mod LineSteps
pub mod LinesLaw
