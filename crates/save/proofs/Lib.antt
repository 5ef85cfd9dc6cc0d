pub mod Pieces
-- The walks.
pub mod Walked
-- The pieces joined are the image.
pub mod Joined
