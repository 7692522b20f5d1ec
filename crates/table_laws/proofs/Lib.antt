pub mod Ranges
pub mod Tallies
