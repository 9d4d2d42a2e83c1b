pub mod Caused
pub mod Seconds
pub mod Still
pub mod Stops
pub mod Tells
pub mod Unreported
