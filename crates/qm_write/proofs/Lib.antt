mod Frames
pub mod Framing
