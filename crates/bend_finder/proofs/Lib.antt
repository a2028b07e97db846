pub mod Outcomes
pub mod LiveCut
pub mod Directions
pub mod Lines
pub mod WallCrossings
pub mod RunCrossings
pub mod SpecialPoints
pub mod FoundWalls
mod MarkedRuns
pub mod PowerMajorants
pub mod ExactPowers
pub mod KeptEntries
pub mod KeptMaps
pub mod KeptRuns
pub mod TakenPowers
pub mod TermMasses
pub mod PointBends
mod LowTerms
mod MarkedSpots
mod SortedMarks
pub mod Found
