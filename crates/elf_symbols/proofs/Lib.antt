pub mod Lookups
pub mod Stable
pub mod Steps
