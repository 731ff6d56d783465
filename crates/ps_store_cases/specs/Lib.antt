pub mod Bases
pub mod Stores
