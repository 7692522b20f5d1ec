pub mod Joins
pub mod Merged
pub mod Layouts
pub mod Laws
pub mod Beside
