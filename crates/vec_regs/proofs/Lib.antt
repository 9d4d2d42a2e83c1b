pub mod Fields
pub mod Low
pub mod PackedLanes
mod Pairs
pub mod Parts
pub mod SetParts
pub mod Views
pub mod WordLanes
