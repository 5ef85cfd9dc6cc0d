pub mod Judge
pub mod Usable
pub mod Walk
