pub mod ReadBack
pub mod Said
pub mod Both
pub mod Segments
