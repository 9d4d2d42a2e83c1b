pub mod Conditions
pub mod Formats
pub mod Places
