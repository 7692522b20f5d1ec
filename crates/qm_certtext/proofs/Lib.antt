pub mod Chosen
pub mod Counts
pub mod Cutting
pub mod Found
pub mod Telling
pub mod Texts
