pub mod Cutting
pub mod Sides
