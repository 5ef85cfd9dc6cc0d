pub mod Rows
pub mod Steps
pub mod Count
pub mod Theorem
pub mod Refusals
pub mod Laws
