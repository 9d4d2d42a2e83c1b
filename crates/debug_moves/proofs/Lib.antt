pub mod Backs
pub mod Reaching
pub mod Seeks
pub mod Staying
pub mod Stops
