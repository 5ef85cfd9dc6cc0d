pub mod Tests
pub mod Words
pub mod Packets
pub mod Frames
mod Copy
