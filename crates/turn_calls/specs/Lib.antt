-- What the calls mean.
pub mod Calls
