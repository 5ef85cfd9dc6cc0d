pub mod Row
pub mod Learn
pub mod View
