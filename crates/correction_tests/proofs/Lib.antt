pub mod LeadingImages
pub mod WorkedLines
pub mod CrossedWalls
pub mod Consistency
