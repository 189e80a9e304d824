pub mod Triangle
pub mod Digits
pub mod Adding
pub mod Along
pub mod Neighbours
pub mod Clearing
