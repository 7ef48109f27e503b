-- What stands at a position of the bytes.
pub mod Records
