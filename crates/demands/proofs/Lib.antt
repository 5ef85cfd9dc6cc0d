pub mod Calls
pub mod Demands
pub mod Located
-- Req 10's sentences over runs of calls.
pub mod Edited
-- Req 01's.
pub mod Saved
pub mod Long
pub mod Hired
