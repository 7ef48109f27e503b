-- `Asks`: the tests; `Behind`: a list laid behind or in front of the one that stands; `Adds`: what the calls do.
pub mod Asks
pub mod Behind
pub mod Adds
