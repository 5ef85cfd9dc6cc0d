pub mod Taught
