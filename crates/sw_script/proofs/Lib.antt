pub mod GrammarLaw
pub mod ActSteps
