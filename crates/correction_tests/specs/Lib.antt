pub mod WorkedImages
pub mod CrossedSums
pub mod LocalWalls
