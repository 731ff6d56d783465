pub mod Lists
pub mod States
pub mod Naming
pub mod Wanting
pub mod Asked
