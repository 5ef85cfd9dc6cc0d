pub mod Calls
pub mod Keys
pub mod Laws
pub mod Standing
pub mod Finding
