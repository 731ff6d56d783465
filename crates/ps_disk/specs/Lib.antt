pub mod Disk
pub mod Calls
pub mod Counts
pub mod Outcomes
pub mod SeenLeft
pub mod Filled
