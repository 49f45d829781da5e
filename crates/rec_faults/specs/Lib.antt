pub mod DirectoryCommands
pub mod FaultLine
pub mod ReadingLine
pub mod ReplayLine
pub mod Status
pub mod WritingCommands
pub mod WritingFaults
