-- A replay in pieces, how the code's is read, and calls of the code one after the other.
pub mod Pieces
pub mod Playing
pub mod Ran
