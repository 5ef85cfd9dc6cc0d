pub mod Open
pub mod Unfolded
