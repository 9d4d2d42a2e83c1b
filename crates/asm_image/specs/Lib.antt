pub mod Labels
pub mod Draft
pub mod Filling
pub mod TextLines
pub mod Assembly
