mod Arcs
pub mod Layouts
mod Patches
