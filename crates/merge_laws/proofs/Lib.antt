pub mod Sides
pub mod Joins
pub mod Layouts
pub mod Fewer
pub mod Decided
pub mod Exists
pub mod Beside
pub mod Spared
