pub mod Images
pub mod Laws
pub mod OneSide
pub mod Parts
