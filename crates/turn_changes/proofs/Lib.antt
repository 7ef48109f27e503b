-- What the functions' proofs cite.
pub mod Known
