pub mod Payload
pub mod Calls
