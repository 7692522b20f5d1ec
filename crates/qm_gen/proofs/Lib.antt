mod Grid
mod Ranges
