pub mod Heads
pub mod Gets
pub mod Ending
pub mod Piecewise
pub mod Streaming
pub mod Having
pub mod Catching
pub mod Answering
mod Cases
