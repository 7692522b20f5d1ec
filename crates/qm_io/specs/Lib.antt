pub mod Ends
pub mod Gained
pub mod WordLists
