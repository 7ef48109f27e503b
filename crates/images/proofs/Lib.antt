-- `RoundTrip` has the theorems: an image and its list are one for one. The others are what the functions' proofs cite.
pub mod Bytes
pub mod Writing
pub mod Reading
pub mod RoundTrip
