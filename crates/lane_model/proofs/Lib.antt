pub mod ActiveLanes
pub mod Bits
pub mod Found
