pub mod Timely
pub mod Fronts
pub mod Queues
pub mod Replays
pub mod Readies
pub mod Openings
pub mod Refusals
mod OpenRead
