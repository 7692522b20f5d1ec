pub mod Folds
pub mod Pigeon
pub mod Rows
pub mod Classes
pub mod OneList
pub mod Corners
pub mod Crosses
