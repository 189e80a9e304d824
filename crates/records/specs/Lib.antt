pub mod Outcome
pub mod Records
pub mod Keeping
pub mod Laws
