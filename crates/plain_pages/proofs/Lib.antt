pub mod Bytes
pub mod Faults
pub mod Maps
pub mod Ordered
pub mod Parts
pub mod Removed
pub mod Runs
pub mod Written
