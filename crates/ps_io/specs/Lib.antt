pub mod Clock
pub mod Held
pub mod World
pub mod Shelf
pub mod MemClock
pub mod MemWorld
pub mod Real
