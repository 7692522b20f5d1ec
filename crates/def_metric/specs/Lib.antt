pub mod Fails
pub mod Roots
pub mod Starts
pub mod Targets
