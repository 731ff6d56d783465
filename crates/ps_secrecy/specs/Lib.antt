pub mod Alike
pub mod Deeds
pub mod Laws
pub mod Runs
pub mod Seen
