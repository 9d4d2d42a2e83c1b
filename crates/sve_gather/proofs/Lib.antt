pub mod Indexes
pub mod Lanes
pub mod GatheredWords
pub mod Ffr
pub mod GatheredElements
pub mod Plain
pub mod PageElements
pub mod InGroup
