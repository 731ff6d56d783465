pub mod BasesHold
pub mod Frames
pub mod GoingOn
pub mod StoresHold
