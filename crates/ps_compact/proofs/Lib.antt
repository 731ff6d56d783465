pub mod Stores
pub mod Places
pub mod Depth
pub mod Counted
pub mod Waiting
pub mod Bases
pub mod Endings
