pub mod Linked
pub mod States
