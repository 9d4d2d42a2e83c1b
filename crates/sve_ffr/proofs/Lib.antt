pub mod Takes
pub mod Cleared
pub mod Loaded
