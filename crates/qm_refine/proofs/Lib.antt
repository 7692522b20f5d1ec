pub mod Multiplied
