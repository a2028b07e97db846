pub mod Growth
pub mod LineTracer
pub mod Reached
pub mod Traced
pub mod Tracing
