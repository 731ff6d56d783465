pub mod OneMore
pub mod Denials
