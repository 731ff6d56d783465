pub mod DeedLaws
pub mod DueLaws
pub mod RunLaws
