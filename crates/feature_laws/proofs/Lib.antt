pub mod Breaks
pub mod First
pub mod Arcs
pub mod Conforming
pub mod Exists
