pub mod InGroup
mod AtOnce
mod TakenAtOnce
