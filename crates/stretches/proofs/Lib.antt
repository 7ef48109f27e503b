-- `Parts` and `Order` are what the crates above cite: lists laid in lent parts, and a copy in two stretches.
pub mod Parts
pub mod Order
