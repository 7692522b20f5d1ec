pub mod Chains
pub mod Flood
