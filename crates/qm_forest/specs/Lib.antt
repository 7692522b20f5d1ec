pub mod Gathers
pub mod Needs
pub mod Parts
pub mod Rings
pub mod Rounds
pub mod Ties
pub mod Views
pub mod Outlines
