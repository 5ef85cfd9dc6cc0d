pub mod After
pub mod Columns
pub mod Holds
pub mod OneMap
pub mod Once
pub mod Lines
pub mod Theorem
pub mod Examples
