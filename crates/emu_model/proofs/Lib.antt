pub mod LittleEndian
pub mod Cleared
pub mod FieldBits
pub mod LaneBytes
pub mod Written
pub mod Keys
pub mod Mapping
pub mod Rows
