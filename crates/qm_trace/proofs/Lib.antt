mod Instants
mod Ends
mod Counting
mod Reaching
mod Noting
mod Fewer
pub mod Tellings
