pub mod Pieces
pub mod Putting
pub mod Same
pub mod Touched
pub mod Values
pub mod Words
