-- What the functions' proofs cite: a drain that is closed as soon as it is open.
-- `Fixed`: a record that is read is fixed by what is said of it.
pub mod Performs
pub mod Fixed
