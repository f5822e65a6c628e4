pub mod PairSteps
pub mod CellLaws
