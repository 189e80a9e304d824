pub mod Places
pub mod Finding
pub mod Adding
pub mod Joining
