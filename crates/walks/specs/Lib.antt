-- A borrowing walk and its step as the public contracts read them.
pub mod Lent
