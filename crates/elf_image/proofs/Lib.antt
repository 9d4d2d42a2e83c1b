pub mod Accepted
pub mod Loops
