pub mod Still
pub mod Entries
pub mod Running
pub mod Streams
pub mod Rehearsed
pub mod Laws
