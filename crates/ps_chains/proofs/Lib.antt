pub mod Linking
pub mod Places
pub mod Removed
pub mod Pushed
pub mod Steps
pub mod Room
