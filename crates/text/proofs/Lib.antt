pub mod Decimal
pub mod Handed
pub mod Laid
pub mod Lengths
pub mod Pages
pub mod Pieces
