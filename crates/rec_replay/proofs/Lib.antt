pub mod Converted
pub mod LineSteps
pub mod Loaded
pub mod LoadedEach
pub mod Recorded
pub mod Registered
