pub mod LiftLaws
pub mod Tags
