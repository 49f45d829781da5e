pub mod Ranges
pub mod EventLines
pub mod Suites
pub mod Counts
