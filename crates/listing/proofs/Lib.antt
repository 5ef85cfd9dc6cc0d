pub mod Pieces
pub mod KeyLine
pub mod Sorted
pub mod Widths
pub mod Told
pub mod Finished
pub mod Theorem
pub mod Examples
