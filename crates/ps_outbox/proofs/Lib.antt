pub mod Asked
pub mod Fifo
pub mod Keeping
pub mod Readied
