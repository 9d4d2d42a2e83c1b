pub mod Bitfields
pub mod Halfwords
pub mod Masks
pub mod SignedFields
pub mod SignedWords
