mod Moved
mod Works
mod Ranks
mod Stored
mod Pairs
mod Causes
mod Longest
mod Headlines
mod Opened
mod Over
mod Streams
pub mod Fronts
pub mod Told
mod Nothing
