pub mod Layout
pub mod Marked
pub mod Over
pub mod Read
pub mod Ready
