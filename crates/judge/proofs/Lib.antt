pub mod Rules
pub mod Within
pub mod Exactly
pub mod Judged
pub mod Search
pub mod Slices
pub mod Learned
pub mod Clear
