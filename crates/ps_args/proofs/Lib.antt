pub mod Numbers
pub mod Spelled
pub mod Hosts
pub mod Cut
pub mod Well
