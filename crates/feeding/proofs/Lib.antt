pub mod Records
pub mod Chunks
pub mod Feeding
