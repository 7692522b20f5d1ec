pub mod Balance
pub mod Degrees
