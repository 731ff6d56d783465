pub mod Asking
pub mod Fronts
pub mod Moved
pub mod Counts
