pub mod ByOperation
pub mod Conditions
pub mod Masks
