pub mod SortedSums
pub mod ProductConditions
