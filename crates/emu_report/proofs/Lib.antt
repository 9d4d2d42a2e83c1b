pub mod Decimals
pub mod Digits
pub mod VectorDigits
pub mod Puts
pub mod Pieces
pub mod Lines
pub mod Core
pub mod Lanes
