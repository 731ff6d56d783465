pub mod Children
pub mod Printed
