pub mod Record
pub mod Sized
pub mod Cut
pub mod Chunk
