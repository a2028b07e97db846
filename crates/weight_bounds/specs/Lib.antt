pub mod Masses
pub mod Rows
pub mod Tables
pub mod Bounds
