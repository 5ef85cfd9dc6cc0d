pub mod Plays
pub mod Chunks
pub mod Widths
pub mod Finished
pub mod Told
pub mod Theorem
pub mod Examples
