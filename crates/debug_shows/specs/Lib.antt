pub mod Breaks
pub mod Changes
pub mod Frames
pub mod Memory
pub mod Places
pub mod Things
