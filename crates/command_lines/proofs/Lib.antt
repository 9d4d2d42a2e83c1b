pub mod AcceptedLines
pub mod Items
pub mod Numerals
pub mod SameLines
