pub mod Laws
pub mod Lifts
