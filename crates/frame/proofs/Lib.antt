pub mod Cuts
pub mod Bytes
