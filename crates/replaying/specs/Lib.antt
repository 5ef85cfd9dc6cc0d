pub mod Counts
pub mod Feed
pub mod Lines
pub mod Replay
