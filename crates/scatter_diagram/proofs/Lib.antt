pub mod Degrees
pub mod Walls
pub mod Places
pub mod Lines
pub mod Bounds
pub mod Stored
