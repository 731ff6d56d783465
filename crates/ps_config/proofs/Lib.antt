pub mod Numbers
pub mod Rows
pub mod Changing
pub mod Again
pub mod Kept
