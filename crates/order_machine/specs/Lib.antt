pub mod Events
pub mod History
pub mod Seen
pub mod Stands
pub mod Moves
pub mod Steps
pub mod Laws
