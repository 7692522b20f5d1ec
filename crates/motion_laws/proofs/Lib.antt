pub mod Among
pub mod Bits
pub mod Steps
pub mod Onward
pub mod Marks
pub mod Shown
pub mod Order
