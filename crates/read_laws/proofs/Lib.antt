pub mod Accepted
mod SaidLines
pub mod Soups
pub mod MarksRead
pub mod LayoutsRead
pub mod Written
pub mod NewChains
pub mod SaidChains
pub mod MarksAgain
pub mod FinishedMarks
