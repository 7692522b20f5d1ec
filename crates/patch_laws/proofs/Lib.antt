pub mod OneArc
pub mod Chosen
