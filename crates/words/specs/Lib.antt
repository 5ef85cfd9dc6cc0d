pub mod First
pub mod Halve
pub mod Lists
pub mod Rows
pub mod Slots
pub mod Runs
pub mod Rising
