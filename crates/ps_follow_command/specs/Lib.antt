pub mod Feeding
pub mod Following
