pub mod Families
pub mod Flow
pub mod Found
pub mod Joins
pub mod Laws
pub mod Live
pub mod Ranks
pub mod Ways
