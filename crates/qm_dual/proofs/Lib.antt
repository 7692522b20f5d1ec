pub mod Gathered
pub mod Tallies
pub mod Weak
pub mod Verdicts
