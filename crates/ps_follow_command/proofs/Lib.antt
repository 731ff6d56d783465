pub mod Fed
pub mod Followed
