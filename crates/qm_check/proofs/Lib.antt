pub mod Heads
mod Kept
mod Maps
pub mod Pairs
mod Points
mod Reach
mod Tasks
mod Verdicts
