pub mod Words
pub mod Slots
pub mod KeyRow
pub mod Lowest
pub mod Readings
pub mod Walks
