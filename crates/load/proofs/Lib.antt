pub mod Fed
pub mod Same
pub mod Loaded
