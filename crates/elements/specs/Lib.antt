-- The answers as the public contracts read them.
pub mod Answers
