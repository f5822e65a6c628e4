pub mod CellSteps
pub mod RowSteps
pub mod StoreSteps
pub mod StoredLaws
pub mod PlaceLaws
pub mod FillSteps
pub mod RowOrder
