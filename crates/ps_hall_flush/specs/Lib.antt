pub mod Origin
pub mod Homes
pub mod Seat
pub mod Doing
pub mod Flush
pub mod History
