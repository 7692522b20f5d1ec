pub mod Tables
pub mod Arcs
pub mod Uses
pub mod Sides
pub mod Four
