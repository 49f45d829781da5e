pub mod Keys
pub mod Attempts
pub mod Joined
pub mod Judged
pub mod RerunSteps
pub mod Writable
