-- One law for each return of a swap, over the laws of its stores; a function's proof applies them.
pub mod Stores
pub mod Laws
