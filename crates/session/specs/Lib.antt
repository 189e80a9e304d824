pub mod Banks
pub mod Calls
