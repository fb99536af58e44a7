pub mod Chosen
pub mod Fronts
pub mod Kinds
pub mod KindLaws
pub mod Slots
pub mod Tables
