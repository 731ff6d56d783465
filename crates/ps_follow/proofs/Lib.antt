mod Answered
mod Bodies
mod Fronts
mod Takes
pub mod Walks
mod Follows
