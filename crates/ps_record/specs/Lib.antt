pub mod Raw
pub mod Reading
pub mod Batch
pub mod Texts
pub mod Formed
