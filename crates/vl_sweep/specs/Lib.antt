pub mod Bounded
pub mod LoadRuns
pub mod Sweeps
