pub mod Dealing
pub mod Counted
