pub mod ManyCases
pub mod RunCases
pub mod WorldCases
pub mod Worlds
