pub mod Floors
pub mod LayoutNet
pub mod LayoutNetLaws
pub mod MeshLayouts
