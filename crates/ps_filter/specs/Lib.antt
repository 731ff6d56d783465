pub mod Keys
pub mod Wants
pub mod Names
pub mod Printed
