pub mod States
pub mod Cases
