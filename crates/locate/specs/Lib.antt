pub mod Locate
pub mod Parts
