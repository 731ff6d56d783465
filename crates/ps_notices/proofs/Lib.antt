pub mod Around
pub mod Due
pub mod Placed
pub mod Counting
