pub mod Copies
pub mod Handed
pub mod Places
