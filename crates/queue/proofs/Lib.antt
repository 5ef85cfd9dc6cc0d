pub mod Leaving
pub mod Scan
pub mod Words
pub mod Rows
