pub mod Fields
pub mod Nodes
pub mod Scalars
pub mod Tokens
