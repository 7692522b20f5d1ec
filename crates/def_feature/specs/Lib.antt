pub mod Marks
pub mod Marked
pub mod Laws
pub mod Beside
pub mod Conforming
