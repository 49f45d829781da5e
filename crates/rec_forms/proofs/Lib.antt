pub mod FieldSteps
pub mod ReadBack
pub mod Writing
