pub mod Ends
pub mod Feeding
pub mod Following
pub mod Laws
pub mod Lines
pub mod Pieces
