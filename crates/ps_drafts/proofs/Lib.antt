pub mod Kids
pub mod Printed
