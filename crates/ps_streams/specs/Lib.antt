pub mod Speaking
pub mod Reading
