pub mod Images
pub mod Loadable
