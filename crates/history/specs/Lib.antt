pub mod History
pub mod Frames
pub mod Table
