-- The run that the halving is handed; sorted and parted lists.
pub mod Handed
pub mod Sorted
