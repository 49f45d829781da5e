pub mod Batches
pub mod Names
pub mod Instants
pub mod Kinds
pub mod Events
pub mod Head
pub mod Session
