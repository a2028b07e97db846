pub mod Casts
pub mod Made
pub mod Ordered
pub mod Quotients
pub mod Meets
