mod Texts
pub mod Layouts
