pub mod Differences
pub mod FarShifts
pub mod Magnitudes
