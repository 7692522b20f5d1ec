pub mod Floods
pub mod Rings
pub mod Walks
