pub mod Begun
pub mod Left
pub mod Replayed
pub mod Refused
pub mod Fresh
pub mod Opens
pub mod Reads
pub mod OpenRead
