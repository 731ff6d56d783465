pub mod Left
pub mod Stand
pub mod Frames
