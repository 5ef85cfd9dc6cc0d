pub mod Queue
pub mod Row
