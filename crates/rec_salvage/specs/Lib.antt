pub mod Gathering
pub mod Keeping
pub mod Refusals
pub mod Salvaged
pub mod Salvages
pub mod WholeLines
