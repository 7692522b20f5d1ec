pub mod Part
pub mod Ports
pub mod Walk
