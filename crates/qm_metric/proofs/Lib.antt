mod Nets
mod CutTables
pub mod StartLaws
