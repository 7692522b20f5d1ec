pub mod Gridded
