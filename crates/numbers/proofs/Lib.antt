pub mod Counting
pub mod Going
pub mod Picking
pub mod Rows
pub mod Sets
pub mod Words
