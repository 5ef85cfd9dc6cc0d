pub mod Steps
pub mod Seven
pub mod Cut
