pub mod Readings
pub mod Report
