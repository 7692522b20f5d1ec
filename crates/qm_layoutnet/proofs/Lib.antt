pub mod Balance
pub mod EndTables
pub mod Whole
pub mod Built
pub mod Floors
