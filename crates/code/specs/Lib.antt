pub mod Codes
pub mod Decoding
pub mod Fits
pub mod Kinds
pub mod Rows
pub mod Writing
