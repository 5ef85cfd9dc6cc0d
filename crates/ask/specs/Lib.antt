pub mod Ask
pub mod Parts
