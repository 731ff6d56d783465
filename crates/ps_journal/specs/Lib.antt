pub mod Beginning
pub mod Settled
pub mod Left
pub mod Places
pub mod Judged
pub mod Opened
pub mod Pieces
pub mod Journal
