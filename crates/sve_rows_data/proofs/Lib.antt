pub mod Narrowed
