pub mod Counting
pub mod Iterating
pub mod Picking
pub mod Sets
pub mod Words
