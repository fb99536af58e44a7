pub mod Events
pub mod Faults
pub mod Spaces
pub mod Words
