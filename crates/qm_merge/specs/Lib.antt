pub mod Walks
pub mod Seams
pub mod Waiting
pub mod Beside
pub mod Links
