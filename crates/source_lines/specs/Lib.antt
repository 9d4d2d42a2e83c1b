pub mod Errors
pub mod Tables
pub mod Texts
