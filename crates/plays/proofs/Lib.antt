-- What the functions' proofs cite, and the theorem that a journal's pieces do not show. Read from the top.
pub mod Parts
pub mod RecordBytes
pub mod Records
pub mod Elements
pub mod Done
pub mod Quiet
pub mod Calls
pub mod Whole
pub mod Rest
pub mod Theorems
pub mod WholeCase
