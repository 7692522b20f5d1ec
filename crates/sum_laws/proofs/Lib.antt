pub mod Sums
pub mod Tests
