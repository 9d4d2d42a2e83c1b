pub mod Layouts
pub mod Filled
pub mod Newlines
pub mod Named
pub mod Placed
pub mod Assembled
pub mod Pieces
pub mod Appended
