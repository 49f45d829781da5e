pub mod Counts
pub mod FirstEnded
pub mod Knowing
pub mod Refusals
pub mod RunIdLists
pub mod Stored
pub mod WarningCauses
