-- The answers as the contracts read them, and sequences of calls.
pub mod Answers
pub mod Played
