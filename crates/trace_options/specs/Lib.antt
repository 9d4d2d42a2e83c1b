pub mod Options
pub mod Places
pub mod RunWords
pub mod Showing
pub mod Windows
