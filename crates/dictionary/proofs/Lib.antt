pub mod Lookup
pub mod Rule
pub mod Lent
pub mod Table
