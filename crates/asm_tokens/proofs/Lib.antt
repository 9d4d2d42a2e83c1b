pub mod Strings
pub mod Pieces
pub mod Cuts
pub mod Digits
pub mod Signs
pub mod Split
