pub mod Each
pub mod SpaceLaws
pub mod WordLaws
