pub mod Spots
pub mod Whole
