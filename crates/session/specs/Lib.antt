pub mod Session
pub mod Cut
