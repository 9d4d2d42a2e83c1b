pub mod Compares
pub mod Patterns
