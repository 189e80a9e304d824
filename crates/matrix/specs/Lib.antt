pub mod Layout
pub mod Matrix
pub mod Lawful
pub mod Rows
pub mod Cases
