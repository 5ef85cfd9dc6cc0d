pub mod Unfolded
pub mod InHand
