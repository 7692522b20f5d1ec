pub mod Rounds
pub mod Starts
