pub mod Counts
pub mod Courses
pub mod Doing
pub mod Going
pub mod Lines
pub mod Marking
pub mod Running
pub mod Streams
