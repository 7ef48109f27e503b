-- The straight copy alone.
pub mod Copies
