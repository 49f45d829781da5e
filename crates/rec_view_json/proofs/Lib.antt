pub mod Places
pub mod SomeValues
pub mod Fitting
