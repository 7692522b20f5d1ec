pub mod OldPoints
pub mod Parameters
pub mod SpotPlaces
pub mod Cells
