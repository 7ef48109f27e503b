-- `Sorted` has the theorems on sorted and parted lists; the other files are the steps of the search.
pub mod Handed
pub mod Steps
pub mod Searches
pub mod Edges
pub mod Spots
pub mod Inserted
pub mod Sorted
