-- Two lists in runs, and cut into stretches.
pub mod Lists
pub mod Stretches
