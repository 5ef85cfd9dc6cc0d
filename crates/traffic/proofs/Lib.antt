pub mod Order
pub mod Sums
pub mod Frames
pub mod Fresh
pub mod Words
pub mod Theorem
pub mod Answers
pub mod Alone
