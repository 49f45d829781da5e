pub mod Lacking
pub mod Packed
pub mod Replacements
