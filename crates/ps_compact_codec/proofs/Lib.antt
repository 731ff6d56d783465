pub mod Accepted
pub mod Addresses
pub mod Digits
pub mod Kept
pub mod Kids
pub mod Names
