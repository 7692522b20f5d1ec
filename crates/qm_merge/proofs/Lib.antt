pub mod Rounds
pub mod Rejoined
pub mod Linked
pub mod Names
