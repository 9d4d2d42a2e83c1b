pub mod Copied
pub mod Gathered
pub mod FirstLast
pub mod Turns
pub mod Written
pub mod FourWords
pub mod WordPlaces
