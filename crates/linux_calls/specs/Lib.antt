pub mod Done
pub mod Ends
pub mod Granted
pub mod Names
pub mod Puts
pub mod Replies
pub mod Taken
