pub mod ActiveWords
pub mod ChunkPlaces
pub mod CopiedLanes
pub mod LaneArrays
pub mod Quads
pub mod SomeLanes
