pub mod Left
pub mod MovesLeft
