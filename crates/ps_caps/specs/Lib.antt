pub mod Repeated
pub mod Typed
