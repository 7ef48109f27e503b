-- `Copies`: the copy refused and made.
pub mod Copies
