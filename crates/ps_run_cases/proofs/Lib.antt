pub mod Likeness
pub mod ManyHold
pub mod RunsHold
pub mod WorldsHold
