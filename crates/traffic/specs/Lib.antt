pub mod Traffic
pub mod Runs
