pub mod Counts
pub mod Workers
pub mod Steps
pub mod EventLists
pub mod ReaderLaws
pub mod TaskLaws
