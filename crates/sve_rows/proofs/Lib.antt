pub mod Narrowed
pub mod Listed
pub mod Alone
pub mod Laws
pub mod NarrowedMoves
