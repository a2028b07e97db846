pub mod Proper
pub mod Degrees
pub mod Kinds
pub mod Shown
pub mod Listed
pub mod Stopped
pub mod Ordered
pub mod Stored
