pub mod FieldOrder
pub mod Found
pub mod LookupSteps
mod NumberTexts
mod OnlyOne
mod ReadSteps
pub mod WriteLaws
