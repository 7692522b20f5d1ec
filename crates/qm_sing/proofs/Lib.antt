mod Floods
pub mod Numberings
mod Walking
mod Longest
