pub mod Accepting
pub mod Breaking
pub mod Exactly
pub mod Inverting
pub mod Packs
pub mod SeenLaws
pub mod Steps
