pub mod Ends
pub mod Floors
