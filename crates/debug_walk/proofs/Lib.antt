pub mod Asking
pub mod Backing
pub mod Counting
pub mod Seeking
pub mod Stepping
