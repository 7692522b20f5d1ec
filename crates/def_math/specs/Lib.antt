pub mod Counts
pub mod Increasing
pub mod Runs
pub mod Searches
pub mod Sums
pub mod Tables
