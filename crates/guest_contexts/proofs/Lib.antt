pub mod Begins
pub mod Copied
pub mod Found
pub mod Kept
pub mod Laid
pub mod Lists
