pub mod GridsText
pub mod LayoutText
