pub mod Groups
pub mod Renaming
