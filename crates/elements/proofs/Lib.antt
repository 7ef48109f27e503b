-- `Elements`: the element at a position stands in its slot. `Refused`: how a call that can hand one over is refused.
-- `Fixed`: an answer that carries an element is fixed by what is said of it.
pub mod Elements
pub mod Refused
pub mod Fixed
