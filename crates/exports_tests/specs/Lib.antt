-- A call with a test of a kind.
pub mod Kinds
