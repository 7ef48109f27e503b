-- `Copied`: a range of a queue, copied.
pub mod Copied
