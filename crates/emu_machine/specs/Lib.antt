pub mod Accesses
pub mod Advances
pub mod Contexts
pub mod Ends
pub mod InTurns
pub mod Layouts
pub mod Loads
pub mod Machines
