pub mod Answering
pub mod Feeding
pub mod Followed
pub mod Following
pub mod Next
pub mod Refused
pub mod View
