pub mod Names
pub mod Packing
pub mod Preparing
pub mod Replacing
