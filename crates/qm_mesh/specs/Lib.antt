pub mod Refusals
pub mod Tables
pub mod Pairs
pub mod Turns
