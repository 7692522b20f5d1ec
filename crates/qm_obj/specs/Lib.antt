pub mod Ahead
pub mod Feeding
pub mod Indices
pub mod Kept
pub mod Lines
pub mod Positions
pub mod Views
