pub mod Asides
pub mod Keeps
