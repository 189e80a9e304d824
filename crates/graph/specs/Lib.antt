pub mod Counting
pub mod Shape
pub mod Refusals
pub mod Judging
pub mod Joining
pub mod Views
pub mod Opening
pub mod Stores
