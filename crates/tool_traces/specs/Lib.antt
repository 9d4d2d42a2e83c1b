pub mod Traced
pub mod Endings
