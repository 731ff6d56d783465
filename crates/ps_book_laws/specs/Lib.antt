pub mod Addressed
pub mod Keys
pub mod Laws
pub mod Linked
pub mod Rows
pub mod Sound
