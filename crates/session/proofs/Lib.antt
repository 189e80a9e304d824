pub mod Keeping
pub mod Made
pub mod Tables
