pub mod Places
pub mod LineLimits
pub mod Scan
pub mod Outcome
pub mod Statuses
