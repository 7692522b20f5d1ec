pub mod Box
pub mod Marks
pub mod Told
