pub mod Buffers
pub mod Slots
