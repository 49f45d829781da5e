pub mod Numbers
pub mod OptionSteps
