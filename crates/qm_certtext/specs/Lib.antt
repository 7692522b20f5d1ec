pub mod Cuts
pub mod Heads
pub mod Parts
pub mod RoundLines
