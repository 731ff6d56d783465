pub mod Alike
pub mod Features
pub mod Following
pub mod Places
