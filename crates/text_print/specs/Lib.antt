pub mod Edges
pub mod ByClass
pub mod Room
pub mod Lines
