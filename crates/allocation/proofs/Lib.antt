pub mod Computed
pub mod Living
pub mod Ending
pub mod Edges
