pub mod Few
pub mod Rows
pub mod Refused
pub mod Stores
pub mod Compacted
