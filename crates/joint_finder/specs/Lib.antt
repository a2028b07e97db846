pub mod Joints
pub mod Live
pub mod Crossings
pub mod Strands
