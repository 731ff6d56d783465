pub mod Shelves
pub mod Clocks
pub mod Openings
