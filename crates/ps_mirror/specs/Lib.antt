pub mod Copy
pub mod Few
pub mod Digits
pub mod Mirrored
pub mod Filled
pub mod Report
