pub mod Session
pub mod Seats
pub mod Gathered
pub mod Published
