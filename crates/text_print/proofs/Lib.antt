pub mod Digits
pub mod Laid
pub mod Bounds
pub mod ByClass
pub mod Chosen
pub mod Tokens
