mod Measures
pub mod Mutual
mod Tables
