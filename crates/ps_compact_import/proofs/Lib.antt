pub mod Levels
pub mod NoticeLines
pub mod Places
pub mod Said
