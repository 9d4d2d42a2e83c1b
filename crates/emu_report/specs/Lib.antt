pub mod VectorLines
pub mod WordDigits
pub mod FaultNames
