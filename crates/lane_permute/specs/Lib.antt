pub mod Slices
pub mod Places
