pub mod Stepped
pub mod Visited
