pub mod Places
pub mod Continued
pub mod Begun
pub mod Settled
pub mod Taken
pub mod Ended
pub mod Published
pub mod Sent
