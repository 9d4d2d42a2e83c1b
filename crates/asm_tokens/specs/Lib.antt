pub mod Kinds
pub mod Tokens
pub mod Layout
pub mod AreTokens
pub mod Numbers
pub mod Places
