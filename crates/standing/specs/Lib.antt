pub mod Sound
pub mod Standing
