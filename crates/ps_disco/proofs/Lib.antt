pub mod Trees
pub mod Keyed
pub mod Places
pub mod Under
pub mod Steps
pub mod Offered
