pub mod Sound
pub mod Lasting
pub mod Holds
pub mod Laws
pub mod Calm
