pub mod PieceSteps
pub mod SchemaSteps
