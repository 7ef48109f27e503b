-- `Whole` is what the calls above cite: the two runs, one behind the other, are the range.
pub mod Asks
pub mod Cases
pub mod SliceRanges
pub mod Spans
pub mod Whole
