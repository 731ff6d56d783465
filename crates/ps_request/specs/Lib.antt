pub mod Answer
pub mod Only
pub mod Heads
pub mod Taking
pub mod Written
