pub mod Lump
