mod GridPoints
pub mod Positions
mod Solids
