-- The layout undone, and the messages of a map.
pub mod Parse
-- What frames can say of a map.
pub mod Sayable
pub mod Members
-- Editions after messages.
pub mod Editions
-- Some of a list's keys, and images of the same maps.
pub mod Chosen
-- The round trip, and the law of damage over histories.
pub mod Again
-- Loading into an empty table.
pub mod Empty
-- How long an image is, its parts, and the worked example.
pub mod Lengths
pub mod Part
pub mod Example
