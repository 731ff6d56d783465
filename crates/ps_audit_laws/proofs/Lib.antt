mod Lists
pub mod Texts
pub mod Telling
mod PlacedKinds
mod Placed
pub mod Reading
mod Cases
