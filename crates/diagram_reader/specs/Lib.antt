pub mod Asked
pub mod Machine
