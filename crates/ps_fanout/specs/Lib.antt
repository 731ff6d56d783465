pub mod Told
pub mod Hearing
pub mod Changed
pub mod Trees
pub mod Parts
