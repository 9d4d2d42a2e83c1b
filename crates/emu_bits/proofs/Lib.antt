pub mod Computed
pub mod Signs
pub mod Search
pub mod Elements
pub mod AllBelow
pub mod Places
pub mod Encoding
pub mod LineNumbers
