pub mod Accepted
pub mod Features
pub mod Made
