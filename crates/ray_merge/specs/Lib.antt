pub mod Additions
pub mod RayTerms
pub mod Rays
pub mod Answer
