pub mod Places
pub mod Acts
pub mod Seen
pub mod Standings
pub mod Suites
pub mod Selection
pub mod Plans
pub mod Planned
