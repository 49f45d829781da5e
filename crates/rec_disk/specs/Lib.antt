pub mod Disks
pub mod MemoryDisks
