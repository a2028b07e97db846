pub mod LowFunctions
pub mod Samples
