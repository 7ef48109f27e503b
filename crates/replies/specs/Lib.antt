-- The records and the answers as a caller from C gets them, the code's answers as they cross, the structs as the
-- contracts read them, a test by its kind.
pub mod Records
pub mod InC
pub mod Crossed
pub mod Replies
pub mod Kinds
