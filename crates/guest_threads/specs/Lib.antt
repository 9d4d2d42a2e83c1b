pub mod Calls
pub mod Ends
pub mod Quiet
pub mod Started
pub mod Steps
pub mod Named
