pub mod Greater
pub mod Readings
