-- The one form of all answers as the contracts read it.
pub mod Sights
pub mod Answers
