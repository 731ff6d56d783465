mod Answering
mod Coming
mod Taking
mod Steps
mod Finishing
mod Recorded
mod Resting
mod Rising
mod Wrapping
pub mod OfTheFeed
