pub mod Counted
pub mod Endings
pub mod Written
