pub mod Asked
pub mod Machine
pub mod Sent
