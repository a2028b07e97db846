pub mod ByDegree
pub mod Gains
pub mod Sign
pub mod Laws
