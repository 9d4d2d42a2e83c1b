pub mod Registers
pub mod Verbs
