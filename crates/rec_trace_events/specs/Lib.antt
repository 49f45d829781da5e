pub mod Args
pub mod AttemptEnds
pub mod EventParts
pub mod EventTexts
pub mod ReadEvents
pub mod TraceEvents
pub mod RowNames
