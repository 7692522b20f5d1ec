pub mod Feed
pub mod Kept
