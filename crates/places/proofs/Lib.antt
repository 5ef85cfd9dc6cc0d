pub mod Meet
pub mod Place
pub mod Placed
