pub mod Checked
pub mod Judged
pub mod Least
pub mod Making
pub mod Multiples
pub mod Ready
pub mod Refused
