pub mod Lookup
pub mod Order
pub mod Read
pub mod Symbols
