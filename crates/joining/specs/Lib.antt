pub mod Near
pub mod Chains
