pub mod Begun
pub mod Passes
