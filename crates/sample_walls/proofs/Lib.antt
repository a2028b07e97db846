pub mod LowFunctions
pub mod OnAxis
