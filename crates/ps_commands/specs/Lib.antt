pub mod Words
pub mod Well
