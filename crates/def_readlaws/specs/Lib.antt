pub mod ReadMeshes
pub mod ReadMarks
pub mod ReadLayouts
pub mod ReadPairs
pub mod ReadSpots
pub mod ReadChains
