pub mod Parts
pub mod Twins
pub mod Seats
