pub mod Counts
pub mod Feed
