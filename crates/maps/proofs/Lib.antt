pub mod Tests
pub mod Maps
