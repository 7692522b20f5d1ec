pub mod Dual
pub mod Matching
