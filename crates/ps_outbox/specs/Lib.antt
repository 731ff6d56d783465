pub mod Boxes
pub mod Keys
pub mod Kept
