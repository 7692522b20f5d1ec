pub mod Balances
mod Ends
pub mod Within
