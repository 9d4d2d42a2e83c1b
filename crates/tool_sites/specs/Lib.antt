pub mod Beside
pub mod Explanation
pub mod Guards
pub mod Nearby
pub mod Sites
pub mod Words
