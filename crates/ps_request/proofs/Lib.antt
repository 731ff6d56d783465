pub mod Addresses
pub mod Children
pub mod Routed
pub mod Attributes
pub mod Lowered
pub mod Remade
pub mod Spelled
