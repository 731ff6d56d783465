pub mod Plans
pub mod Features
pub mod Entries
pub mod Held
