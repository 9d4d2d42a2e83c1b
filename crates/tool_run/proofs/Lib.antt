pub mod Causes
pub mod Reading
pub mod Runs
pub mod Seconds
pub mod Still
pub mod Stopping
pub mod Tellings
pub mod Worlds
