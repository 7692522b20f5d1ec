pub mod Found
pub mod HeadTables
pub mod Laid
