pub mod Count
pub mod Words
