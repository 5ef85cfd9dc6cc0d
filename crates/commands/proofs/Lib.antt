pub mod Numbers
pub mod Lists
pub mod Refusals
pub mod Commands
pub mod Examples
