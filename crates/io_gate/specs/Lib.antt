pub mod Streams
pub mod Images
pub mod FileLists
pub mod Calls
pub mod Memory
pub mod Pieces
pub mod Lent
pub mod ReadAll
