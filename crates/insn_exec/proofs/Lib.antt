pub mod A64Groups
pub mod Gathered
pub mod InGroup
