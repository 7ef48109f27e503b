-- What the functions' proofs cite, and the theorem that a sequence of turns is a sequence of the rules.
pub mod Told
pub mod Theorems
