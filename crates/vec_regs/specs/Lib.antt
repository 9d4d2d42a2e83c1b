pub mod Packed
pub mod Shown
pub mod Words
