pub mod Since
pub mod Keys
pub mod Follows
pub mod Demand
pub mod Same
pub mod Edition
