pub mod Told
pub mod Shapes
pub mod Tests
pub mod Marking
pub mod Emptying
pub mod Uniting
