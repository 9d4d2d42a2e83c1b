pub mod Gained
pub mod FirstFile
mod Taken
