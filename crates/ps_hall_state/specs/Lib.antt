pub mod Shape
pub mod Rows
pub mod Stand
pub mod Steps
pub mod Arrive
pub mod Next
pub mod Gone
