-- `Crossing`: what an exported call leaves in the caller's words. `Fixed`: what crosses is fixed by what is said of it.
pub mod Crossing
pub mod Fixed
