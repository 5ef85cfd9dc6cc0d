pub mod Bits
pub mod After
pub mod Run
pub mod Number
