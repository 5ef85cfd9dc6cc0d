pub mod Histories
pub mod Sets
pub mod Learned
