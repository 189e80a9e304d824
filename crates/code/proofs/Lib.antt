pub mod Pushing
pub mod Asking
pub mod OwnMaps
