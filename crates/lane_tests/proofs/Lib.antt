pub mod Orders
mod Reductions
mod ToldBits
