pub mod Fans
pub mod Needs
pub mod States
pub mod Weights
