pub mod Corners
pub mod Marks
pub mod OneFan
pub mod Vertices
