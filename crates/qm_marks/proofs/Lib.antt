mod AllWishes
mod EdgeMarks
mod LineMarks
mod OneWish
mod Pieces
