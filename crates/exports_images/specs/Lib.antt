-- Image writing, as a caller from C gets it.
pub mod Images
