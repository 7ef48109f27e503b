-- `Pairs`: what the calls do.
pub mod Pairs
