pub mod Words
pub mod Frames
