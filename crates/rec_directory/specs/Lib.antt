pub mod Directories
pub mod Events
pub mod Files
pub mod Logs
pub mod Paths
