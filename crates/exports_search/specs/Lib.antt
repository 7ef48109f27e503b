-- `partition_point` by a test of a kind.
pub mod Kinds
