pub mod Formed
pub mod Kept
pub mod Orders
pub mod Placed
pub mod Repeats
pub mod StableSort
