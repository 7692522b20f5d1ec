pub mod Aims
pub mod FitTasks
pub mod FitWords
pub mod Shares
pub mod WishLines
