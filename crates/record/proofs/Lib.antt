pub mod Laws
pub mod Sized
pub mod Cutting
pub mod Chunks
pub mod Bytes
