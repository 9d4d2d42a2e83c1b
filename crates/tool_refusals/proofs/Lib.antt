pub mod Copied
pub mod Endings
