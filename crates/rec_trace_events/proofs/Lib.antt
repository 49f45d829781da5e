pub mod EventTexts
pub mod OnlyWritten
mod Pairs
pub mod ReadEvents
pub mod WithoutOutputs
pub mod WritableArgs
pub mod WritableAttempts
