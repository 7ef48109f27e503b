-- What the functions' proofs cite: bytes put one behind the other, decimal digits, whole lines.
pub mod Puts
pub mod Digits
pub mod Words
