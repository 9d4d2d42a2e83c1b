pub mod FieldBits
pub mod LaneBits
pub mod InParts
pub mod Kept
pub mod KeptWords
pub mod Words
