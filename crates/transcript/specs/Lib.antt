pub mod Laws
pub mod Outcomes
pub mod Tallies
pub mod Texts
