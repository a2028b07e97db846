pub mod Bounds
pub mod CorrectionMasses
pub mod Crossings
pub mod Masses
pub mod Readings
pub mod Stages
pub mod StartingRays
