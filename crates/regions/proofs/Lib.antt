-- `Asks`: the tests; `Moves`: what the calls do.
pub mod Asks
pub mod Moves
