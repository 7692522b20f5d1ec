mod Casts
mod Entries
mod Pushes
mod Rims
