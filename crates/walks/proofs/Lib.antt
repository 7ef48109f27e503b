-- `Steps`: a law for each return. `Whole`: what a walk gives from its
-- ends. `LeftOver`: the same of a borrowing walk. `Fixed`: it is fixed by what is said of it.
pub mod Steps
pub mod Whole
pub mod LeftOver
pub mod Fixed
