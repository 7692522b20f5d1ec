pub mod Lengthened
pub mod Spots
pub mod Placed
pub mod Pushed
pub mod ArcTables
pub mod OnArcs
pub mod Paths
pub mod Walks
