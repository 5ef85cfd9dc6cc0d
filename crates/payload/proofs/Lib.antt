pub mod Turns
pub mod Fit
pub mod Laws
pub mod OneWord
