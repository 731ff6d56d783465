pub mod Rows
pub mod Cells
pub mod Cause
pub mod Digits
pub mod Bounds
