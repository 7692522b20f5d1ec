mod Level
mod Plain
mod Unique
mod Uses
mod Walks
mod Words
