pub mod SortedSums
pub mod Binomials
