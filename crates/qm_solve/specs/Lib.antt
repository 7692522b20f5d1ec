pub mod Idle
pub mod Rounds
