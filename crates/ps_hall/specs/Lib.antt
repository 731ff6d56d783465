pub mod Steps
pub mod Told
pub mod Calls
pub mod Ending
pub mod Start
pub mod Passes
pub mod Closed
