pub mod Compared
pub mod Lengths
