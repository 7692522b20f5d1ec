pub mod Borders
pub mod FaceNodes
pub mod Runs
pub mod Uses
