pub mod LineAt
pub mod LinesSoFar
pub mod LoadAppended
pub mod LoadRunning
pub mod Running
pub mod Shared
