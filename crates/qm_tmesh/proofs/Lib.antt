pub mod ArcTables
pub mod Built
pub mod Splits
pub mod UseTables
pub mod Walks
