pub mod Faults
pub mod InUse
pub mod Operands
pub mod Outcome
pub mod Reading
pub mod Words
