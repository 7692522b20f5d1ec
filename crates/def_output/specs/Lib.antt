pub mod Buffered
pub mod Compared
