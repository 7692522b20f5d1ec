pub mod Keys
pub mod Kept
pub mod Counted
pub mod Risen
pub mod Stepped
