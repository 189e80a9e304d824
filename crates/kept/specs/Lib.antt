pub mod Moves
pub mod Removed
pub mod Sound
pub mod Kept
pub mod Answers
