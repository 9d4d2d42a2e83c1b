pub mod AtOnceRows
pub mod Couples
