pub mod Asides
pub mod Keeps
pub mod MarkedLines
mod PassedOver
pub mod Printable
pub mod ReadAgain
pub mod Solved
pub mod Tails
