-- What it is for bytes to be put.
pub mod Puts
