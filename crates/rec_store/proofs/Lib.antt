pub mod Accepted
pub mod Adding
pub mod Clashing
mod Counts
mod EntrySizes
mod EntrySpellings
mod EqualContents
pub mod EventMapLaws
mod Growing
pub mod Held
pub mod KeptLaws
pub mod LeftStopped
mod Logged
mod OneRecord
pub mod OtherEntries
pub mod OutputLaws
mod OutputsRead
pub mod PartContents
pub mod PartLaws
pub mod PartOutputs
pub mod PartRefusals
mod PartsBack
mod PartsJudged
pub mod PartsOf
mod PartsWithin
mod PathLengths
pub mod ReadLaws
mod RecordedEvents
mod RecordedParts
pub mod Refusals
mod Stopped
pub mod StoreTaken
pub mod Storing
mod WrittenRuns
