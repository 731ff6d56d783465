pub mod Heads
pub mod Numbering
