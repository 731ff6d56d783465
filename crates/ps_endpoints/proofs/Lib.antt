pub mod Back
pub mod Asking
pub mod Each
