mod Examples
pub mod Arcs
pub mod Box
pub mod Edges
pub mod Perfect
pub mod Pick
pub mod Size
pub mod Units
pub mod Whole
