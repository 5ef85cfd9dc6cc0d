pub mod Write
pub mod Read
pub mod Part
