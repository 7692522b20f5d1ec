pub mod ArcUses
pub mod Lies
pub mod OneLayout
pub mod Bounds
