mod Chains
mod Raised
mod Stepped
pub mod Outcomes
