-- The answer as the public contract reads it.
pub mod Answers
