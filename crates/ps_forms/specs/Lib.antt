pub mod Kids
pub mod Vars
