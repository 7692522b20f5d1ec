pub mod Lengths
pub mod Wishes
