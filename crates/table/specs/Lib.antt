pub mod Layout
pub mod Learn
pub mod Forget
