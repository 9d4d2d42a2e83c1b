pub mod InPlace
pub mod PairLanes
pub mod RegisterWords
