pub mod Lines
pub mod Words
pub mod Own
pub mod Over
pub mod Did
pub mod Laws
