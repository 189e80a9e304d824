pub mod Registers
pub mod Own
