pub mod Statuses
pub mod Outside
pub mod Asking
pub mod Leaving
pub mod Telling
