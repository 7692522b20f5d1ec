mod Fans
mod Numbers
pub mod OfList
mod NodeCounts
mod Told
