pub mod Groups
pub mod Meaning
pub mod Prepared
