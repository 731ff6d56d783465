pub mod Moments
pub mod OneMore
pub mod TornWrites
pub mod FilledBytes
