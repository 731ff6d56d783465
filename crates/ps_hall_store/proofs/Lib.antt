pub mod Fronts
pub mod Keeping
pub mod Sizing
pub mod Storing
