pub mod BenchLine
pub mod GraphText
